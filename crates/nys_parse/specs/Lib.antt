pub mod Parsing
pub mod Expressions
pub mod Statements
