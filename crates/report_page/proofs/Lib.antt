pub mod MarkupLemmas
pub mod MonthLemmas
pub mod PendingLemmas
pub mod RowLemmas
