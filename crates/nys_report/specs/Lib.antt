pub mod Parts
pub mod Countable
pub mod Nodes
pub mod Spelled
pub mod Trace
