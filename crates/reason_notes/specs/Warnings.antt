pub mod Holidays
pub mod Notes
pub mod Words
