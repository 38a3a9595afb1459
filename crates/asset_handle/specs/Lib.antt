pub mod Handle
pub mod Codes
pub mod Listed
pub mod Asked
pub mod Told
pub mod Calls
