pub mod FewLemmas
pub mod VerdictLemmas
pub mod NumberLemmas
pub mod GrowthLemmas
pub mod JudgeLemmas
pub mod PrintedLemmas
