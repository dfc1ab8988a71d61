pub mod Writing
pub mod Appending
pub mod Pushing
pub mod Views
pub mod Texts
