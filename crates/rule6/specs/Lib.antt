pub mod Days
pub mod Hours
pub mod Access
pub mod Service
pub mod Timeliness
pub mod Words
