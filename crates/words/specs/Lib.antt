-- What the contracts of words, and of the crates above it, cite.
pub mod Bits
pub mod Kinds
pub mod Search
pub mod Refusals
pub mod Answers
pub mod Blocks
pub mod Sums
pub mod Effect
