pub mod TranscriptLemmas
pub mod ReportingLemmas
pub mod WritableLemmas
pub mod AgainLemmas
pub mod LeftLemmas
pub mod ReportAgainLemmas
pub mod RoomLemmas
pub mod ListingLemmas
