pub mod Eaches
pub mod Moves
pub mod Takings
