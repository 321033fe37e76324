-- What the contracts of reading, and of the crates above it, cite.
pub mod Metres
pub mod Depth
