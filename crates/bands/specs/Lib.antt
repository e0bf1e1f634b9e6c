pub mod Rule
pub mod Rows
pub mod Meaning
