pub mod Below
pub mod Tracing
pub mod Paths
pub mod Alike
