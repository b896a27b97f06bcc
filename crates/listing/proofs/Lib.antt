pub mod Listed
pub mod Whole
pub mod Theorems
pub mod Passing
