pub mod ApplyLemmas
pub mod CaseLemmas
pub mod DocketLemmas
pub mod RebookingLemmas
pub mod WrittenLemmas
