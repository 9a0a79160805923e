pub mod Beginning
pub mod Widening
pub mod Answering
pub mod Same
