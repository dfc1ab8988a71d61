-- Words of private contracts, ghost fields and models alone.
pub mod memory
