pub mod Listing
pub mod Passing
