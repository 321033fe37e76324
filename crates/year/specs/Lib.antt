-- What the contracts of year, and of the crates above it, cite.
pub mod Year
pub mod Limits
