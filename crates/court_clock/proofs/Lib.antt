pub mod DayLemmas
pub mod ClockLemmas
pub mod CallerLemmas
