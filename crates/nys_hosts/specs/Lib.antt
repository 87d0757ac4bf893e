pub mod Masks
pub mod Counts
pub mod Quorums
pub mod Makers
pub mod Sets
