pub mod MarginsLemmas
pub mod ReadingsLemmas
pub mod WarningsLemmas
