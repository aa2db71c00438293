pub mod Found
pub mod Blanked
