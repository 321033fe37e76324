-- Laws that the proofs of this crate, and of the crates above it, cite.
pub mod Order
pub mod Pattern
pub mod Floor
pub mod Lowest
pub mod Law
