-- What the contracts of closing, and of the crates above it, cite.
pub mod Closing
pub mod Closable
