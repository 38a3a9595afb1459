pub mod RisingLemmas
pub mod WhoLemmas
pub mod LiveLemmas
pub mod ArrowLemmas
pub mod TextLemmas
pub mod ChainLemmas
pub mod DeadlockLemmas
pub mod ExplainedLemmas
