pub mod Parts
pub mod Spelling
pub mod Mistakes
