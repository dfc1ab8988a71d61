pub mod Expanding
pub mod Compressing
pub mod Absorbing
pub mod Writing
pub mod Padding
pub mod Rows
