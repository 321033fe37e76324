-- What the contracts of peatrun cite.
pub mod Years
