pub mod Digits
pub mod Taken
