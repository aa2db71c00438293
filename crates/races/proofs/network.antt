-- Networks: circuits with signals as names, wires by gate and pin, and states as functions. The races of a circuit are proved exact here first.
pub mod Bits
pub mod Networks
pub mod Marks
pub mod Races
pub mod Passes
pub mod Choice
pub mod RacesUpper
pub mod Flips
pub mod Turned
pub mod RacesLower
pub mod OutcomeUpper
pub mod Followed
pub mod Wave
pub mod OutcomeLower
