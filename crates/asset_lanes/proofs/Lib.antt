pub mod WalkLemmas
pub mod ListLemmas
pub mod RowLemmas
pub mod LawLemmas
pub mod ArrowLemmas
