pub mod Heading
pub mod Called
pub mod Words
