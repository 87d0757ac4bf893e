pub mod FrameLemmas
pub mod CarryLemmas
