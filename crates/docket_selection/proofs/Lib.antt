pub mod CalendarLemmas
pub mod CallerLemmas
pub mod ClosedLemmas
pub mod DueLemmas
pub mod OrderLemmas
pub mod PendingLemmas
pub mod ExplainedLemmas
pub mod ChangesLemmas
