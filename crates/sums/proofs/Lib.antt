-- Laws that the proofs of this crate, and of the crates above it, cite.
pub mod Steps
pub mod Meaning
pub mod Tables
