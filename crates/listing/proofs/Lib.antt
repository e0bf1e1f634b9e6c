pub mod Ahead
pub mod Writes
pub mod Spanning
pub mod Loadings
