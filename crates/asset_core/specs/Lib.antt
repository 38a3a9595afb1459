pub mod OpenFaults
pub mod Pending
pub mod Tables
pub mod Stepped
