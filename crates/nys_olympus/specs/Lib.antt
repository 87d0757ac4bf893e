pub mod Means
pub mod Heard
pub mod Supports
pub mod Handing
pub mod HeadDrops
