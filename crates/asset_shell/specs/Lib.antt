pub mod Sessions
pub mod Shelled
pub mod Talking
pub mod Answering
pub mod Turns
pub mod Laws
