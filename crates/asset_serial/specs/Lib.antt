pub mod Answered
pub mod Following
