pub mod Contents
pub mod Part
