pub mod PlacingLemmas
pub mod ArrivedLemmas
pub mod GoesLemmas
pub mod RunLemmas
pub mod FirstLemmas
pub mod InitiatedLemmas
pub mod OrderLemmas
