pub mod Header
pub mod Holds
pub mod Part
pub mod Steps
