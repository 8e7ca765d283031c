pub mod CallerLemmas
mod CarefulLemmas
mod HearingLemmas
mod InsteadLemmas
mod RowLemmas
mod StartLemmas
mod WarningLemmas
