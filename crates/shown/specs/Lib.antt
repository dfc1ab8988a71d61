pub mod HexText
pub mod HexName
pub mod Name
