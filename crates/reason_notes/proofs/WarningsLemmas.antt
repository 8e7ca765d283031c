pub mod HolidayLemmas
