pub mod NameLemmas
pub mod GroupingLemmas
pub mod WithoutLemmas
pub mod GroupedLemmas
pub mod NumberLemmas
pub mod ReadLemmas
