pub mod Rendering
pub mod Playing
pub mod Reporting
pub mod Again
