pub mod Changes
pub mod Rises
