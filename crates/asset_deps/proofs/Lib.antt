pub mod KindLemmas
pub mod SeatLemmas
pub mod NamedLemmas
pub mod LinkLemmas
pub mod OutsideLemmas
pub mod TableLemmas
pub mod CycleLemmas
pub mod AloneLemmas
