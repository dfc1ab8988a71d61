pub mod Path
pub mod Header
pub mod Value
pub mod Form
pub mod Content
pub mod Views
