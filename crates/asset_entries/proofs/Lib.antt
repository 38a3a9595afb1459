pub mod TagLemmas
pub mod OpenedLemmas
pub mod OperatingLemmas
pub mod StoredLemmas
pub mod StoredSetLemmas
pub mod EntryLemmas
pub mod SameLemmas
pub mod KnowingLemmas
