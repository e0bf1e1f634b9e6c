pub mod Rule
pub mod Saved
pub mod Meaning
