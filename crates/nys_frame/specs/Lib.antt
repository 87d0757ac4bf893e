pub mod Framing
pub mod Pairs
