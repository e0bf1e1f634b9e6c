pub mod Rule
pub mod Reducing
pub mod Saved
pub mod Meaning
