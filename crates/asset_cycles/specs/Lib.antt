pub mod Cyclic
pub mod Members
pub mod Textbook
pub mod Leaving
pub mod Trimmed
