pub mod Tracks
pub mod Ways
pub mod Ends
pub mod Sources
pub mod Owners
pub mod Scans
pub mod Allowing
pub mod Openers
