pub mod Entries
pub mod Inventory
