pub mod Each
pub mod Once
pub mod Rows
