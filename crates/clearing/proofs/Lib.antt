pub mod Grounds
pub mod Cleaning
pub mod Descending
pub mod Sweep
