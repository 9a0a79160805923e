pub mod Frames
pub mod Nodes
pub mod Reps
pub mod Seats
pub mod Once
pub mod Same
pub mod Paths
