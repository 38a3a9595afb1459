pub mod Sourced
pub mod Walked
