pub mod Dates
pub mod Weekdays
pub mod Federal
pub mod States
