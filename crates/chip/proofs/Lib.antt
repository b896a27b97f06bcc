pub mod Lists
pub mod Laws
pub mod Runs
pub mod Image
pub mod Theorems
