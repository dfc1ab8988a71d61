pub mod ConfigLines
pub mod Digits
pub mod Headers
pub mod Refusals
pub mod Sending
