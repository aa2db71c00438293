pub mod Laying
pub mod Whole
pub mod Known
pub mod Tied
