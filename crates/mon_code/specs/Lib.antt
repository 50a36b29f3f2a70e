pub mod Programs
pub mod Effects
pub mod Depths
pub mod Checked
pub mod Waiting
pub mod Operators
pub mod Sites
