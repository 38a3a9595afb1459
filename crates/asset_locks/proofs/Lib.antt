pub mod TableLemmas
pub mod SeatLemmas
pub mod HandedRows
pub mod HandLaws
pub mod EnrolledLemmas
