pub mod Dependencies
pub mod Reached
pub mod Valid
