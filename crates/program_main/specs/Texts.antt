pub mod Argument
pub mod Days
pub mod Numbers
pub mod Taken
pub mod Words
