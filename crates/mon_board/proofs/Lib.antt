pub mod Bases
pub mod Seats
pub mod Steps
pub mod Keeping
pub mod Telling
