-- The theorem on the numbers that cross to C and Rust.
pub mod Numbers
