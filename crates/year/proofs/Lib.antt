-- Laws of a cell's year.
pub mod Laws
