pub mod RunLemmas
pub mod HostLemmas
