pub mod UniqueTextLemmas
