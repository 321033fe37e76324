-- What the contracts of totals, and of the crates above it, cite.
pub mod Totals
