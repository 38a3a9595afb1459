pub mod JobsLemmas
pub mod DraftLemmas
pub mod ReadLemmas
mod JobsCases
pub mod ActLemmas
pub mod EndedLemmas
