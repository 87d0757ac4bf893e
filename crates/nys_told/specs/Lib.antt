pub mod Noted
pub mod Handed
pub mod Told
