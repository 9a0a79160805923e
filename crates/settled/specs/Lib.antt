pub mod Says
pub mod Settled
