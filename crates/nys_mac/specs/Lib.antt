pub mod Hmac
pub mod Tags
pub mod States
