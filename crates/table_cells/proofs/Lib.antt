pub mod Indices
pub mod Spread
