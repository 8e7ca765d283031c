-- What holds inside of types and between the steps of functions: no caller needs it.
pub mod Walk
