pub mod Starting
pub mod Single
