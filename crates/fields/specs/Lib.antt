-- What the contracts of fields, and of the crates above it, cite.
pub mod Fields
pub mod Words
pub mod Valid
