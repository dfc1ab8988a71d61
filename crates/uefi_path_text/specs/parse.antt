pub mod Parts
pub mod Ipv4
pub mod Ipv6
pub mod Values
pub mod Arguments
pub mod Nodes
pub mod Paths
pub mod Errors
