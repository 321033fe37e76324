-- What the contracts of the seven calls cite.
pub mod Calls
pub mod AdmittedCell
