pub mod Values
pub mod Passes
pub mod Members
pub mod Bytes
pub mod Theorems
