pub mod Counts
pub mod Input
pub mod Output
pub mod Frames
pub mod Network
pub mod Memory
pub mod Ways
