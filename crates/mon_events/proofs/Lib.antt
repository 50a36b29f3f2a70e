pub mod Bits
pub mod Constants
pub mod Listed
pub mod Texts
pub mod Splits
