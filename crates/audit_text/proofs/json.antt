pub mod Values
pub mod Controls
pub mod Plain
