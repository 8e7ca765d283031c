pub mod CallerLemmas
pub mod ChangeLemmas
pub mod OwedLemmas
pub mod PublishedLemmas
pub mod PublishingLemmas
pub mod SightLemmas
pub mod CellLemmas
pub mod TrailLemmas
