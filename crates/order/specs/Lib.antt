pub mod Records
pub mod Read
pub mod Delays
pub mod Kinds
