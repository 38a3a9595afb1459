pub mod ClientLemmas
pub mod RunLemmas
pub mod SagaLemmas
pub mod TogetherLemmas
pub mod TurnLemmas
