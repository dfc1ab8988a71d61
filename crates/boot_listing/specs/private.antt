-- Words of private contracts alone.
pub mod Appending
pub mod Found
pub mod Marks
