pub mod IndexLemmas
pub mod TreeLemmas
pub mod LabelLemmas
pub mod LeadLemmas
pub mod JoinLemmas
pub mod LikeLemmas
pub mod GroupLemmas
