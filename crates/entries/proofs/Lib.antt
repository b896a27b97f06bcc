pub mod Looks
pub mod Steps
