pub mod Appointments
pub mod Calendar
pub mod Events
pub mod Laws
pub mod Times
pub mod Words
