pub mod Surveying
pub mod Apartness
pub mod Ordering
pub mod Planting
