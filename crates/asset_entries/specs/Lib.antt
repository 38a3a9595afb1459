pub mod Recorded
pub mod Stored
pub mod StoredSets
pub mod Committing
pub mod Acting
pub mod Operating
pub mod Knowing
