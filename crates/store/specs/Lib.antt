pub mod Read
pub mod Write
pub mod Collect
pub mod Call
