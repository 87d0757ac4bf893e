pub mod Draws
pub mod Kinds
pub mod Drawn
pub mod Rings
pub mod Inputs
