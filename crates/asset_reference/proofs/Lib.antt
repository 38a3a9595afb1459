pub mod AppliedLemmas
pub mod TrackLemmas
pub mod ScanLemmas
pub mod WayLemmas
pub mod EndingLemmas
pub mod SourceLemmas
pub mod OwnerLemmas
pub mod AllowLemmas
