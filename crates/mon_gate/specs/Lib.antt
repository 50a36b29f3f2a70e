pub mod Sums
pub mod Places
pub mod Rule
pub mod Plays
pub mod Seats
pub mod Laws
