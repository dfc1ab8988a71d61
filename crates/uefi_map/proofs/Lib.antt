pub mod MapRows
pub mod ListRows
