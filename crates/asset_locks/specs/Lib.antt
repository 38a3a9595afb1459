pub mod LockTable
pub mod Valid
pub mod Tied
pub mod Blocking
