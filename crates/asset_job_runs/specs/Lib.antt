pub mod JobsEnd
pub mod JobsRun
