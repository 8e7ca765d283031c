pub mod Docket
pub mod Memory
pub mod Words
pub mod Inside
