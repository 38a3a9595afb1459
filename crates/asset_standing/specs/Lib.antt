pub mod Standing
pub mod Stood
pub mod Waited
