pub mod CallerLemmas
pub mod DefaultLemmas
pub mod FaultLemmas
pub mod NumberLemmas
pub mod ParseLemmas
