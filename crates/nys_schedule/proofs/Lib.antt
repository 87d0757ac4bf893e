mod ListLemmas
mod TestLemmas
mod ChoiceLemmas
mod RangeLemmas
mod ShapeLemmas
mod EventLemmas
mod ReadLemmas
pub mod SoundLemmas
