pub mod DateLemmas
pub mod WeekdayLemmas
pub mod EasterLemmas
pub mod FederalLemmas
