pub mod Map
pub mod Keeping
