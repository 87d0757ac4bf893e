pub mod Seats
pub mod Contents
pub mod Ordered
pub mod Delivered
pub mod Attested
pub mod Credit
pub mod Meaning
