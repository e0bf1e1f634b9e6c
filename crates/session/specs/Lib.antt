pub mod Model
pub mod Held
pub mod Sessions
pub mod Theorems
