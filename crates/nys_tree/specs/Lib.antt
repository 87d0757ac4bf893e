pub mod Bindings
pub mod Named
