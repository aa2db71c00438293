pub mod Faults
pub mod Taken
