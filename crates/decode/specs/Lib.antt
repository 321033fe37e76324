-- What the contract of decode cites.
pub mod Decode
