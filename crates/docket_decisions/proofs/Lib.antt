pub mod HolidayLemmas
pub mod NextLemmas
