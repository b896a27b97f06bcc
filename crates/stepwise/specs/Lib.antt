pub mod Asked
pub mod Begins
pub mod Misfit
pub mod Ahead
