-- What the contract of the forecast cites; last, that it is what open and close write, and what its numbers add up to.
pub mod Forecast
pub mod Running
pub mod Closings
