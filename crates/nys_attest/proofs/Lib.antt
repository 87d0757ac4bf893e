pub mod PlaceLemmas
pub mod OwnLemmas
pub mod TableLemmas
pub mod LinkLemmas
