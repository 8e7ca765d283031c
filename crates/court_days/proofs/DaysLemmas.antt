-- Which days of a court are open.
pub mod SearchLemmas
pub mod RolledLemmas
pub mod DatesLemmas
pub mod TableLemmas
pub mod MendLemmas
pub mod EntryLemmas
