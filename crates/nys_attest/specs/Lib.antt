pub mod Windows
pub mod Ranges
