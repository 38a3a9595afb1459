pub mod AnsweringLemmas
pub mod CutLemmas
pub mod SeenLemmas
pub mod TalkLemmas
pub mod WholeLemmas
pub mod RunLemmas
pub mod TurnLemmas
