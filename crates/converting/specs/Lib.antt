-- What the contracts of converting, and of the crates above it, cite.
pub mod Converting
pub mod Convertible
