pub mod Opening
pub mod Telling
pub mod Acting
pub mod Within
