pub mod Order
pub mod Rust
pub mod Theorems
