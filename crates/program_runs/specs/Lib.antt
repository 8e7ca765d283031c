pub mod Division
pub mod Divider
pub mod Fault
pub mod Office
pub mod Report
pub mod Words
pub mod Inside
