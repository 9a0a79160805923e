pub mod Case
pub mod Words
pub mod Powers
