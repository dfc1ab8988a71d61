pub mod Words
pub mod Pieces
pub mod NodeForm
pub mod Parameters
