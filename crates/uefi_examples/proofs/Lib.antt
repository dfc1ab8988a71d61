pub mod Configurations
pub mod NamedRecords
pub mod Results
pub mod LogSteps
pub mod DigestLogs
pub mod DigestSteps
pub mod WrittenOptions
