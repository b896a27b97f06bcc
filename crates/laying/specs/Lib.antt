pub mod Lend
