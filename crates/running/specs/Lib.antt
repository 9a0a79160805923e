pub mod Run
pub mod Runs
