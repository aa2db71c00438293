pub mod Fired
pub mod Ran
pub mod Sheets
