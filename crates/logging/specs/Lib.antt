-- What the contracts of logging cite.
pub mod Logging
pub mod Bounds
