pub mod memory
pub mod pci
pub mod rows
pub mod private
