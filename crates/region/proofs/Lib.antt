pub mod Steps
pub mod Reach
pub mod Search
pub mod Same
pub mod Bytes
pub mod Change
pub mod Kill
pub mod Theorems
