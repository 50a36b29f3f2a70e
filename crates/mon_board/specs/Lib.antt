pub mod Views
pub mod Plain
pub mod PlainViews
