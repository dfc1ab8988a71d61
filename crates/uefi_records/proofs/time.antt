-- Times and their bytes.
pub mod ReadBack
pub mod Ranges
