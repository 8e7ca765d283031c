pub mod Day
pub mod Clock
pub mod Words
