-- The theorem on the worked figures.
pub mod Agrees
