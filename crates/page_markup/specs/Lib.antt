pub mod Elements
pub mod Escaping
pub mod Frame
pub mod Words
