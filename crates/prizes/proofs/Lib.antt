pub mod Leasts
pub mod Swapping
pub mod Steps
pub mod Rowing
pub mod Filling
pub mod Saving
pub mod Histories
pub mod Holding
