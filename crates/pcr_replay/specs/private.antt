pub mod Hashers
pub mod Quoting
