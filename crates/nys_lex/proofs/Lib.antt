pub mod NumberLemmas
pub mod AsciiLemmas
pub mod LexemeLemmas
pub mod CutLemmas
