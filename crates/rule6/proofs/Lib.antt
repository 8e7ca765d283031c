pub mod CallerLemmas
pub mod AlikeLemmas
pub mod HourLemmas
pub mod AccessLemmas
pub mod ServiceLemmas
pub mod DayLemmas
pub mod EndOfHoursLemmas
