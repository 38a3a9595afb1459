pub mod Parted
pub mod Placed
