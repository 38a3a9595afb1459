pub mod JobsEndLemmas
pub mod JobsRunLemmas
