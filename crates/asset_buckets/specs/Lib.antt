pub mod Bucketed
