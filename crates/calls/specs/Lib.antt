pub mod Tellings
pub mod Effects
pub mod Promises
