-- Words of private contracts and ghost fields alone.
pub mod content
pub mod diff
pub mod verify
pub mod Counting
