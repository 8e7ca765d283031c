pub mod CallLemmas
pub mod HandedLemmas
pub mod HoldLemmas
pub mod LineLemmas
pub mod MergedLemmas
pub mod MergedTextLemmas
pub mod OpenedLemmas
pub mod RunLemmas
