pub mod Lists
pub mod Makers
pub mod Ranges
pub mod Spelling
pub mod Records
pub mod Same
pub mod Printed
