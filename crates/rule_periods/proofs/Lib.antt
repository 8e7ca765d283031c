pub mod AlikeLemmas
pub mod CallerLemmas
pub mod DeadlineLemmas
pub mod NoticeLemmas
pub mod RuleLemmas
pub mod SetLemmas
