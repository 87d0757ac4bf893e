pub mod Tables
pub mod Rules
pub mod Source
pub mod Steps
pub mod Runs
pub mod Contents
pub mod Held
pub mod RunText
