pub mod Views
pub mod Selected
