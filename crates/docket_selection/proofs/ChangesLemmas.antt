pub mod DocketLemmas
pub mod HistoryLemmas
pub mod RevisionLemmas
