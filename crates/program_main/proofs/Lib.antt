pub mod DayLemmas
pub mod EndingLemmas
pub mod HelpLemmas
pub mod OptionsLemmas
pub mod ShapeLemmas
