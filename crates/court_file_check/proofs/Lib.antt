pub mod ReadLemmas
pub mod ItemLemmas
pub mod BeginLemmas
pub mod AnyLemmas
pub mod CheckLemmas
pub mod ReviewLemmas
