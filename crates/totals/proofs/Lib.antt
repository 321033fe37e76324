-- A law of the proof below.
pub mod Lines
