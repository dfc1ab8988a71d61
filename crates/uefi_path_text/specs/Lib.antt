pub mod form
pub mod forms
pub mod AllForms
pub mod parse
pub mod write
pub mod text
pub mod Laws
pub mod private
