-- Laws of the forecast: its running total, its loops, that every year closes, what its numbers add up to, and what stays untouched.
pub mod Running
pub mod Loop
pub mod EveryYear
pub mod EveryTotal
pub mod Untouched
