pub mod UpdateLemmas
pub mod CellLemmas
pub mod EndLemmas
pub mod PlacedLemmas
pub mod HandLemmas
pub mod SeatLemmas
