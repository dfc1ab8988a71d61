pub mod Appending
pub mod Parentheses
pub mod HexLines
pub mod Unsupported
pub mod CommonPrefix
pub mod Joined
pub mod Lines
