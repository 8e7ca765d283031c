pub mod Days
pub mod Court
pub mod Words
