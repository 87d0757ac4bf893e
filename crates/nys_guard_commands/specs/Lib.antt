pub mod Refusals
pub mod Words
pub mod Graphs
pub mod Liars
pub mod Checked
pub mod Planned
