pub mod ListedLemmas
pub mod TakenLemmas
pub mod PrintedLemmas
