pub mod WordLaws
pub mod Slices
pub mod Bytes
