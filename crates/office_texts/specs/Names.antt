pub mod Called
pub mod Laws
pub mod Words
