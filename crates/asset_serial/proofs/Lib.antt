pub mod AnsweredLemmas
pub mod BlockLemmas
pub mod FollowLemmas
