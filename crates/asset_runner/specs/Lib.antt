pub mod Placing
pub mod Runs
pub mod Firsts
pub mod Fates
pub mod Arrived
pub mod Rows
pub mod Comes
pub mod Initiated
