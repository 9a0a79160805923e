pub mod Afters
pub mod Steps
pub mod Settling
