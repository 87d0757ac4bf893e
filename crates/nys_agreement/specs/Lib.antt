pub mod Net
pub mod Said
pub mod Alone
pub mod Assembly
pub mod Events
pub mod After
pub mod Claims
pub mod Examples
