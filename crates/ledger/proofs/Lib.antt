-- Laws of the six calls.
pub mod AdmittedCell
pub mod After
pub mod Untouched
