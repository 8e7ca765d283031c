-- Days and their dates.
pub mod SpanLemmas
pub mod SearchLemmas
pub mod DateLemmas
pub mod TextLemmas
pub mod MonthLemmas
