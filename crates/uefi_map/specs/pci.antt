pub mod Resource
pub mod ResourceList
pub mod Texts
pub mod Views
pub mod Laws
