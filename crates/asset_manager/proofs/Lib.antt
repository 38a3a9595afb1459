pub mod ServeLemmas
pub mod AskLemmas
