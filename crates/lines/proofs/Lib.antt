pub mod Spelt
pub mod Twenty
pub mod Writing
