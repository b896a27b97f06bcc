pub mod Ends
pub mod Edits
pub mod Sweep
pub mod Anew
