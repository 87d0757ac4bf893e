pub mod Reading
pub mod InPlace
pub mod Answers
pub mod Shown
pub mod Heads
pub mod Laws
