pub mod Changed
pub mod ByReading
pub mod Earlier
pub mod Readings
pub mod Others
pub mod Lines
pub mod Words
