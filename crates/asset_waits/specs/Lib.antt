pub mod Waiting
pub mod Live
pub mod Deadlocks
pub mod Words
pub mod Texts
pub mod Chains
pub mod Keepers
