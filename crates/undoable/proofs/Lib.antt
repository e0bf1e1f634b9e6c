pub mod Popping
pub mod Orders
pub mod Pushing
pub mod Admitting
