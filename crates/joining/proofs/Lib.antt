pub mod Hanging
pub mod Joining
