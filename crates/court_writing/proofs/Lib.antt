pub mod CourtLemmas
pub mod LinesLemmas
pub mod SpanLemmas
pub mod NamesLemmas
pub mod UpdateLemmas
