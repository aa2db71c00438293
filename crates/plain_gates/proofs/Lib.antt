pub mod Numbered
pub mod Counted
pub mod Spread
