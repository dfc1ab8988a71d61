-- Words of private contracts, of models and of proofs.
pub mod Filling
pub mod Finding
pub mod Taking
