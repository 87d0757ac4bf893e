pub mod ShelfLemmas
pub mod FirstLemmas
pub mod SharedLemmas
