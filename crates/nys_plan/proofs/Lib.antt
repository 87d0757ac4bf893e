pub mod WalkLemmas
pub mod ChoosingLemmas
pub mod GreatestLemmas
pub mod GoodLemmas
