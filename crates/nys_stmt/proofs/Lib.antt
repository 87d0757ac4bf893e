pub mod Rests
pub mod Rising
pub mod Sizes
pub mod Written
