-- What the contracts of dips cite, and the theorem on two recordings.
pub mod Dips
pub mod Pairing
