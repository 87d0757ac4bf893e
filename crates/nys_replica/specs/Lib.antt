pub mod Tail
pub mod Packing
pub mod Stands
pub mod Taking
