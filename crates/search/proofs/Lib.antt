pub mod Look
pub mod Descents
pub mod Walks
pub mod Finds
pub mod Treads
pub mod Trails
