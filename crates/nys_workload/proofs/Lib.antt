pub mod RingLemmas
pub mod InputLemmas
