pub mod Program
pub mod Process
pub mod Options
pub mod Texts
