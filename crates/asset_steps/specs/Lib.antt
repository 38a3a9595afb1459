pub mod Ready
pub mod Stepped
