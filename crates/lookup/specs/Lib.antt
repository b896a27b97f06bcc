pub mod Gather
pub mod Turns
pub mod Words
