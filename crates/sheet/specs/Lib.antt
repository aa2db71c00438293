pub mod Sheets
pub mod Longest
pub mod Writing
