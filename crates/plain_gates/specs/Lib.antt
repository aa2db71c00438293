pub mod Plain
pub mod Rules
