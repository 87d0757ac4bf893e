pub mod Makers
pub mod Seated
