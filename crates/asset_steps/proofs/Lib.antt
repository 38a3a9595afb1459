pub mod AnswerLemmas
pub mod ReadyLemmas
pub mod OperationLemmas
pub mod WorkLemmas
pub mod ShareLemmas
