pub mod Lists
pub mod Facts
pub mod Laid
