pub mod Telling
pub mod Playing
pub mod Replayed
pub mod Promised
pub mod Evident
pub mod Coming
