-- What the contracts of opening, and of the crates above it, cite.
pub mod Opening
