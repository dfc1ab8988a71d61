pub mod Sm3
pub mod Laws
pub mod Rows
pub mod Hasher
