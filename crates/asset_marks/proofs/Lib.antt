pub mod ArrowLemmas
pub mod KeyWalkLemmas
pub mod KeyedLemmas
pub mod MarkLemmas
pub mod SlotLemmas
pub mod WalkLemmas
