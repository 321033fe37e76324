-- Laws of a cell's years, and of the book that holds them.
pub mod After
pub mod Held
pub mod Level
