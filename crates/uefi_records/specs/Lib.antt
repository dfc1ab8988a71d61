pub mod time
pub mod flags
pub mod file
pub mod Laws
pub mod rows
pub mod private
