pub mod Misfits
pub mod Inside
