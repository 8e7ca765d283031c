-- The court's clock.
pub mod AlikeLemmas
pub mod CivilLemmas
pub mod SteadyLemmas
pub mod YearLemmas
pub mod ZoneLemmas
