pub mod ContentLemmas
pub mod SeatLemmas
pub mod TallyLemmas
