pub mod SeatLemmas
pub mod MoveLemmas
pub mod GrowLemmas
