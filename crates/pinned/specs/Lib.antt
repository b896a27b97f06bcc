pub mod When
pub mod Left
pub mod Words
