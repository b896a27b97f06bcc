pub mod Starts
pub mod Waits
pub mod Ruled
pub mod Requests
