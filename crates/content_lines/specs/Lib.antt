pub mod Escaping
pub mod Folding
pub mod Laws
pub mod Property
pub mod Stamp
pub mod Times
pub mod Words
