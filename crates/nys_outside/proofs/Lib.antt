pub mod InputLemmas
pub mod OutputLemmas
pub mod WayLemmas
pub mod NetworkLemmas
