pub mod Selections
pub mod Reading
