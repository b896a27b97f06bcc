pub mod Called
pub mod Few
pub mod Looks
pub mod Theorems
