pub mod Cells
pub mod Held
pub mod Table
pub mod Tabled
