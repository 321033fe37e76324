-- Laws that the proofs of this crate, and of the crates above it, cite.
pub mod Fields
pub mod Signed
pub mod Steps
pub mod Meaning
pub mod Answers
pub mod Blocks
pub mod Chunks
pub mod Sums
pub mod Effect
