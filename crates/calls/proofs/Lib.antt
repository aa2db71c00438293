pub mod Marking
pub mod Boards
pub mod Rooms
pub mod Sheets
pub mod Promised
