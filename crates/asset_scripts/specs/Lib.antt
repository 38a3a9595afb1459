pub mod Device
pub mod Transfers
pub mod Listing
pub mod Transcript
pub mod Renders
pub mod Preamble
pub mod Runs
