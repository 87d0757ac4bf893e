pub mod Outcomes
pub mod Weight
pub mod Runs
pub mod Noise
