mod Apart
mod Layers
mod Silent
mod Locations
pub mod Faults
pub mod Fits
