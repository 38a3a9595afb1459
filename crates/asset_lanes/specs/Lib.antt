pub mod Walked
pub mod Lanes
pub mod Marks
pub mod Arrows
pub mod Uses
pub mod Summaries
pub mod Promised
