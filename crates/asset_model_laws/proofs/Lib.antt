pub mod RunAmid
pub mod EndLaws
pub mod OwnerLaws
pub mod AmidLemmas
pub mod ContingentLaw
pub mod FinalLemmas
pub mod TogetherLaws
pub mod SagaLaw
pub mod NestedLaw
pub mod HandingLaws
pub mod KeptLaw
pub mod ClientLaw
pub mod BetweenLaw
mod PremiseCases
