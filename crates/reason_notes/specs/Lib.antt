pub mod Appeal
pub mod Margins
pub mod Readings
pub mod Warnings
