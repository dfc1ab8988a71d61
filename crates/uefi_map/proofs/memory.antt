pub mod Strides
pub mod Sorted
pub mod Fields
pub mod Parts
pub mod StrideFree
pub mod Refused
