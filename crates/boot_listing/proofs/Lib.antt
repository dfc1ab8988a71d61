pub mod Controls
pub mod Distinct
pub mod Elements
pub mod Listings
pub mod Names
pub mod Noting
pub mod Numbers
