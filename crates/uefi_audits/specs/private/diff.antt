pub mod Digests
pub mod Keys
pub mod Ranks
