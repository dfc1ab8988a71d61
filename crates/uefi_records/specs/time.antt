-- Times.
pub mod Fields
pub mod Faults
pub mod Reading
pub mod Texts
pub mod Views
