pub mod Descriptor
pub mod Map
pub mod Types
pub mod Flags
pub mod Texts
pub mod Views
pub mod Lending
pub mod Laws
