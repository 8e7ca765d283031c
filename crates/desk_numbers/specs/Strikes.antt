pub mod Line
pub mod SaidText
pub mod Strike
pub mod Restore
pub mod Corrections
pub mod Laws
pub mod Words
