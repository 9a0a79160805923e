pub mod Opens
pub mod Calls
