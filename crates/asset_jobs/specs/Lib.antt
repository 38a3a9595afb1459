pub mod Jobs
pub mod Scripts
pub mod Reads
pub mod Texts
pub mod Acts
pub mod Ended
