pub mod Permits
pub mod Tables
pub mod Receivers
