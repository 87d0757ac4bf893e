pub mod Walks
pub mod Greatest
pub mod Planned
pub mod Refused
