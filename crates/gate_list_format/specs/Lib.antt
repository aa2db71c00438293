pub mod Slots
pub mod Lists
pub mod Reading
pub mod Examples
pub mod Places
