pub mod Extended
pub mod Folds
pub mod Exact
