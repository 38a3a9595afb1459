pub mod PartLemmas
pub mod NumberLemmas
pub mod ShapeLemmas
pub mod OperandLemmas
pub mod ReasonLemmas
