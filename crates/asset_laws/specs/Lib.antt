pub mod Textbook
pub mod Renumbered
pub mod Serial
