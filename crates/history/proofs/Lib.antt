-- Laws of lists of calls.
pub mod Invariant
pub mod EveryList
