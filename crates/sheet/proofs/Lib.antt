pub mod Writes
pub mod Sheets
