-- Words of private contracts and ghost fields alone.
pub mod NoFloat
pub mod Forms
pub mod JsonValues
pub mod PartViews
