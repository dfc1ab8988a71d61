pub mod Fields
pub mod Strings
