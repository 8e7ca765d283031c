pub mod Changes
pub mod Memory
pub mod Words
pub mod Inside
