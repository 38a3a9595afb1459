pub mod StepLemmas
pub mod StandingLemmas
