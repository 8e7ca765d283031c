pub mod Line
pub mod Clerk
pub mod Words
