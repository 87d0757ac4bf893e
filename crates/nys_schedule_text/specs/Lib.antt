pub mod EventLines
pub mod Printable
