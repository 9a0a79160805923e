pub mod Layout
pub mod Rep
pub mod Paths
