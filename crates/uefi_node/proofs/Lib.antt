pub mod Layouts
pub mod Readings
pub mod Parts
pub mod Written
pub mod Signatures
pub mod NulStrings
pub mod Faithful
pub mod Rows
