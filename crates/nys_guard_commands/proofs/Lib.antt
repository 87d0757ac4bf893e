pub mod ThresholdLemmas
pub mod GraphsLemmas
pub mod LiarsLemmas
pub mod LinesLemmas
