pub mod Key
pub mod Fault
pub mod Names
pub mod Control
pub mod Reading
pub mod PeriodNames
pub mod Words
