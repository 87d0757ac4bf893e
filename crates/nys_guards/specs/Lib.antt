pub mod Good
pub mod Faults
