-- What the contracts of book, and of the crates above it, cite: its layout and its check; last, what acceptance gives.
pub mod Layout
pub mod Check
pub mod Held
pub mod AcceptedBook
pub mod Current
