pub mod Races
pub mod Exact
pub mod Fires
pub mod Adopts
pub mod Examples
