-- Laws that the proofs of this crate, and of the crates above it, cite.
pub mod Places
pub mod Words
pub mod Numbers
pub mod Parts
pub mod Valid
pub mod AcceptedBook
pub mod Search
pub mod Held
pub mod Entries
pub mod Keeps
pub mod New
pub mod Holds
