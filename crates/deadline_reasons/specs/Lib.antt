pub mod Row
pub mod Standing
pub mod Passing
pub mod Follows
pub mod Derivation
pub mod Words
pub mod Inside
