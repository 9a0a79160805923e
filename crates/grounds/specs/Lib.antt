-- What a reader must believe: the words of the promises (besides those of the crates rule, state, shape and order; tools/believe lists them).
pub mod Orders
pub mod Session
pub mod Ends
pub mod Answered
-- The promises in other words: each door in full; by the rule between meanings, in three sentences, on the tree in the memory; 01's session.
pub mod Doors
pub mod Right
pub mod Plain
pub mod InFull
-- The laws that they rest on. Those that an edit of must-fail/ breaks, and what follows from them, are in proofs/.
pub mod RecordLaws
pub mod ReplyLaws
pub mod TallyLaws
pub mod Sevens
pub mod Memories
pub mod OnceLaws
