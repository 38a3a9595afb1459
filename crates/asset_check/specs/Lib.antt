pub mod Sentences
pub mod Checked
pub mod Checking
pub mod Laws
