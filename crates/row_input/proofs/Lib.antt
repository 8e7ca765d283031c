mod InputLemmas
mod RowLemmas
mod TriggerLemmas
