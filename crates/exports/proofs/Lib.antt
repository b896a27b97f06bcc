pub mod Read
pub mod Called
pub mod Numbers
pub mod Handed
pub mod Alone
pub mod Theorems
