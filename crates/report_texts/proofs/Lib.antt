pub mod CallerLemmas
pub mod GridLemmas
pub mod HolidayLemmas
