pub mod Numbers
pub mod Bytes
pub mod Laid
pub mod Killed
