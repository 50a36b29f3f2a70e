pub mod Numbers
pub mod Packing
pub mod Codes
pub mod Chosen
pub mod Walks
pub mod Standing
pub mod Firsts
