pub mod FirstItems
pub mod BeforeNul
pub mod Events
pub mod SizeRows
