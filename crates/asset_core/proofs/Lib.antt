pub mod PendingLemmas
pub mod ValidLemmas
pub mod StepLemmas
pub mod PlaceLemmas
