pub mod ObservedLemmas
pub mod PlaceLemmas
pub mod OnDayLemmas
pub mod InPlaceLemmas
