pub mod Style
pub mod Arguments
pub mod EisaId
pub mod SerialNumber
pub mod FileName
pub mod NodeText
pub mod PathText
pub mod Views
