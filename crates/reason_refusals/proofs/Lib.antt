pub mod CommandsLemmas
