pub mod Marks
pub mod Kinds
pub mod Told
pub mod Paired
