pub mod Forms
pub mod Number
pub mod NameLine
pub mod Cases
pub mod Laws
pub mod Words
pub mod Inside
