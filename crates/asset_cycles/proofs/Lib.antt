pub mod LeavingLemmas
pub mod ReachLemmas
pub mod LeastLemmas
pub mod CycleLemmas
pub mod LabelLemmas
pub mod LawLemmas
pub mod MemberLemmas
pub mod TrimLemmas
