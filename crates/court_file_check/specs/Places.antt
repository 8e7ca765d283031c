-- Where something is in the text of a court's file, and what is marked there.
pub mod Marks
pub mod Place
