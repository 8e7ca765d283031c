pub mod RecordLemmas
pub mod RowLemmas
pub mod PartLemmas
