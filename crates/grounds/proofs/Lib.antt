-- The promises in other words (specs/Doors, Plain, Right), proved; and what leads to them from what the public calls state.
pub mod AnsweredOne
pub mod RunLaws
pub mod Doors
pub mod SessionLaws
pub mod GapLaws
pub mod Gaps
pub mod Plain
pub mod AnsweredLaws
