pub mod Numerals
pub mod Bests
pub mod Sequences
pub mod Lines
pub mod Rows
