pub mod Neighbours
pub mod NeighbourLaws
pub mod Sums
pub mod SumLaws
pub mod Floods
pub mod FloodLaws
