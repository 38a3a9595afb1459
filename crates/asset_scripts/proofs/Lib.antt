pub mod TransferLemmas
pub mod OpeningLemmas
pub mod PreambleLemmas
pub mod RunLemmas
