-- A court's file.
pub mod DeskLemmas
pub mod NameLemmas
pub mod NamedZoneLemmas
pub mod OpeningLemmas
