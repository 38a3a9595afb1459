pub mod WordLemmas
pub mod SetLemmas
pub mod StepLemmas
pub mod PlainLemmas
pub mod SaidLemmas
