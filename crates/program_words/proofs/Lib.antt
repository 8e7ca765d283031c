pub mod FaultLemmas
pub mod MetLemmas
