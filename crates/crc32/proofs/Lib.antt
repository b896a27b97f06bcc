pub mod Entries
pub mod Xor
pub mod Law
pub mod Run
pub mod Theorems
