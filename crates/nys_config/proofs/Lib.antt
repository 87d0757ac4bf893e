pub mod Scopes
pub mod Graphs
