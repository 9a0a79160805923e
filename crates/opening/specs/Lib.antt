pub mod Opening
pub mod Stages
