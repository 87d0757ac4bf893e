pub mod TableLemmas
pub mod FreshLemmas
pub mod HeldLemmas
pub mod RoomLemmas
