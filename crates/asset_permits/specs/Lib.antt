pub mod Changes
pub mod Descriptors
pub mod Marked
pub mod Copies
pub mod Stored
pub mod Valid
