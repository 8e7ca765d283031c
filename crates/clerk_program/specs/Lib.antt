pub mod ClerkText
pub mod Text
pub mod Choice
pub mod UniqueText
pub mod Words
