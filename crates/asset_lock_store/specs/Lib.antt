pub mod LockRules
pub mod Stored
pub mod Looked
pub mod Gathered
