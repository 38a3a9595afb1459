pub mod Marked
pub mod Searched
