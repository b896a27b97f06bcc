pub mod Unpacks
