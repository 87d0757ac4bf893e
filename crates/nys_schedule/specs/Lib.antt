pub mod Choices
pub mod Lists
pub mod Hexes
pub mod Statements
pub mod Keywords
pub mod Lines
pub mod Judging
pub mod Schedules
