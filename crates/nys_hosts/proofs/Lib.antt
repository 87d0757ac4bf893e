pub mod MaskLemmas
pub mod CountLemmas
pub mod QuorumLemmas
pub mod ListLemmas
