-- Words of private contracts alone.
pub mod Search
pub mod Characters
