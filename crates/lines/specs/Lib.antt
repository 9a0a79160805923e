pub mod Lines
pub mod Waiting
