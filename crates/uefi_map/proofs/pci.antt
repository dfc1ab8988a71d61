pub mod Records
pub mod OneList
