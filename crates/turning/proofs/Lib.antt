pub mod Sides
pub mod Steps
pub mod Turning
pub mod Balancing
