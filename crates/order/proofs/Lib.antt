pub mod Alone
pub mod Delays
