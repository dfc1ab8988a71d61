pub mod Values
pub mod Fields
pub mod Forms
pub mod Partial
