pub mod ActiveOption
pub mod Configurations
pub mod FullMap
pub mod FormSizes
