pub mod Assigned
pub mod Change
pub mod History
pub mod Laws
pub mod Named
pub mod Noted
pub mod Revision
pub mod Words
