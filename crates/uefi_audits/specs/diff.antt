pub mod Algorithms
pub mod Counterparts
pub mod Differences
pub mod Numbered
pub mod Views
