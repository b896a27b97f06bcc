pub mod WellFormed
pub mod Calls
