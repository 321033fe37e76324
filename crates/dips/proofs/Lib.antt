-- Laws that the proofs of dips cite.
pub mod Readings
pub mod Pairing
pub mod Walk
pub mod Days
pub mod EveryPairing
