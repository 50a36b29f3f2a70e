pub mod Generated
pub mod Plans
pub mod Summaries
pub mod Laws
