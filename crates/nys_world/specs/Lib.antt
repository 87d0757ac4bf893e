pub mod Shows
pub mod Outcomes
pub mod Worlds
pub mod Bundles
pub mod Beginning
pub mod Grown
pub mod Forgeries
pub mod Given
