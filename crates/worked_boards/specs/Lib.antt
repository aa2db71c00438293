pub mod Cases
pub mod Boards
