mod ClerkLemmas
mod ReportLemmas
mod SessionLemmas
pub mod TimeLemmas
