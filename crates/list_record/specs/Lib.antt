pub mod ListBoards
pub mod Entering
pub mod Replay
