-- What fields say, by how they are written.
pub mod Numbers
pub mod Cut
pub mod Period
pub mod Times
pub mod Choices
pub mod Texts
pub mod Grants
pub mod Hearings
