pub mod Deciding
pub mod Running
pub mod Within
