pub mod Config
pub mod Scopes
