pub mod Undoing
pub mod Noting
