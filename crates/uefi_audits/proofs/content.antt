pub mod PathBytes
pub mod Printed
pub mod TaggedSteps
pub mod OneValue
pub mod OneContent
