pub mod Shapes
pub mod Gathered
pub mod Plans
pub mod Places
