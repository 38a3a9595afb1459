pub mod LineLemmas
pub mod NumberLemmas
pub mod WordLemmas
pub mod FirstLineLemmas
pub mod SetWordLemmas
pub mod TakenLemmas
pub mod TakerLemmas
pub mod JobLemmas
pub mod KeywordLemmas
mod GrammarCases
pub mod NumberLaws
pub mod SetLemmas
pub mod RisingLemmas
pub mod ParsedLemmas
