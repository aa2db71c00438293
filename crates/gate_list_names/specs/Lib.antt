pub mod Names
pub mod Sources
pub mod Given
