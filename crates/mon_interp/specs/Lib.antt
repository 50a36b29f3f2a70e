pub mod Asking
pub mod InPlace
pub mod Machines
pub mod Moving
pub mod Places
pub mod Retires
pub mod Shows
pub mod Threads
