pub mod ToldLemmas
pub mod WordLemmas
