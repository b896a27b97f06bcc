pub mod Probe
pub mod Rust
