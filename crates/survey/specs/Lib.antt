pub mod Survey
pub mod Planted
