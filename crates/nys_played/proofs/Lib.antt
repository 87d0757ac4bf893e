pub mod EpochLemmas
pub mod ScopeLemmas
