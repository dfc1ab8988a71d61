-- Sets of flags.
pub mod Named
pub mod Views
