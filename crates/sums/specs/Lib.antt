-- What the contracts of sums, and of the crates above it, cite.
pub mod Sums
