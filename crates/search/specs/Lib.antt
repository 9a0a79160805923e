pub mod Search
pub mod Trails
