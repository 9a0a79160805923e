pub mod Saying
pub mod Settling
