pub mod Back
pub mod Own
pub mod Standing
pub mod Theorems
