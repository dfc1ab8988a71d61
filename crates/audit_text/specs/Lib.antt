pub mod words
pub mod ComparedLogs
pub mod parts
pub mod text
pub mod json
pub mod private
