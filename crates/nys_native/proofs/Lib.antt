pub mod Fits
pub mod SumLemmas
pub mod NeighbourLemmas
