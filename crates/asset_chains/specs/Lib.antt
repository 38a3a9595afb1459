pub mod Chained
pub mod Crossed
pub mod Linked
pub mod Slots
