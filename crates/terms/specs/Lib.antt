-- What the contracts of terms, and of the crates above it, cite.
pub mod Terms
pub mod Split
