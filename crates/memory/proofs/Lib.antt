pub mod Parts
pub mod Shortening
pub mod Adding
pub mod Dropping
pub mod Same
pub mod Whole
