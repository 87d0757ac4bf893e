pub mod Scenario
pub mod Follows
pub mod Steps
pub mod Promises
