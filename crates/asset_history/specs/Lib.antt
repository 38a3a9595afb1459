pub mod Named
pub mod Uses
pub mod Together
pub mod Links
pub mod Users
pub mod Kept
pub mod Sharing
