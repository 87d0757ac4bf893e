pub mod Logged
pub mod Summary
pub mod Answered
