-- Laws that the proofs of this crate cite.
pub mod Longest
pub mod Years
