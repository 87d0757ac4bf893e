pub mod EffectLemmas
pub mod StandsLemmas
pub mod PackLemmas
pub mod StateLemmas
