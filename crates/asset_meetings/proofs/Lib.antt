pub mod UserLemmas
pub mod FewLemmas
pub mod SameLemmas
