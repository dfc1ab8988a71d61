-- Worked rows: examples of the definitions.
pub mod Maps
pub mod Lists
