pub mod Stepped
pub mod Allows
