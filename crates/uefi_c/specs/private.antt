pub mod Nodes
pub mod Ucs2
pub mod TextWriters
