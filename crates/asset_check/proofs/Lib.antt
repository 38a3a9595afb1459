pub mod CheckerLemmas
pub mod CheckingLemmas
pub mod EndLemmas
