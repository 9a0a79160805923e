pub mod Threading
pub mod Counting
pub mod Wholeness
