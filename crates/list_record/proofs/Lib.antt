pub mod KindPins
pub mod Steps
pub mod Pins
pub mod Named
pub mod Lines
pub mod Turns
pub mod Checked
pub mod Joined
