-- Laws that the proofs of this crate cite, and what its definitions mean.
pub mod Greatest
pub mod Meaning
pub mod Bounds
pub mod Newton
pub mod Rounded
pub mod Passed
