pub mod Walks
pub mod TableLemmas
pub mod ReceiverLemmas
pub mod OwnLemmas
