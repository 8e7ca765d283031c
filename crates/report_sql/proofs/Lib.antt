pub mod LiteralLemmas
pub mod RowLemmas
