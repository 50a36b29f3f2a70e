pub mod Lists
pub mod Tops
pub mod Ranges
pub mod Taking
pub mod Counting
mod Resuming
