pub mod Boards
pub mod Answers
pub mod Calls
pub mod Runs
pub mod Moves
pub mod Views
