-- Records: the names that they end with, their bytes and their writers, and the laws of all records.
pub mod Names
pub mod FirstZero
pub mod Judging
pub mod UnitLanes
pub mod Prefixes
pub mod FieldsBack
pub mod Equality
pub mod EqualFiles
pub mod RecordLaws
pub mod WriterNames
pub mod FileInfoArgs
pub mod Written
