-- The records that describe files and file systems.
pub mod Name
pub mod Verdict
pub mod FileInfo
pub mod FileSystemInfo
pub mod Identity
pub mod Texts
pub mod Views
