pub mod CommandLine
pub mod Held
pub mod Kinds
pub mod Named
pub mod Words
