-- What the contracts of balance, and of the crates above it, cite.
pub mod Balance
