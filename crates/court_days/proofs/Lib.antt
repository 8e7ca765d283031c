pub mod DaysLemmas
pub mod CourtLemmas
pub mod CallerLemmas
