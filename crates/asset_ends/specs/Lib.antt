pub mod Shows
pub mod Ended
pub mod Standing
pub mod Tied
pub mod Shown
pub mod Waits
pub mod Updates
