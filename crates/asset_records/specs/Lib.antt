pub mod Dropped
pub mod Handed
pub mod Listed
pub mod Mended
pub mod Layered
