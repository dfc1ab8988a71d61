pub mod Appending
pub mod HexBlocks
pub mod HexNames
pub mod HexNumbers
