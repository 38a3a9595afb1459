pub mod Bucketed
pub mod Seated
