pub mod Ends
pub mod Asked
pub mod Working
pub mod Child
pub mod Run
