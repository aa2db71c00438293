pub mod Circuits
pub mod Wiring
pub mod Changes
pub mod Views
pub mod Passes
