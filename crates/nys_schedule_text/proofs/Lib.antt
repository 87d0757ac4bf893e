mod LineLemmas
mod LengthLemmas
