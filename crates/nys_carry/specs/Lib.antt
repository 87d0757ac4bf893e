pub mod Carrying
pub mod Polling
