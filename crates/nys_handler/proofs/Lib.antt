pub mod ByPlace
pub mod Turns
