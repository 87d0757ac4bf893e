pub mod NumberLemmas
pub mod ReaderLemmas
pub mod BackLemmas
pub mod FirstLemmas
