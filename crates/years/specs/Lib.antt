-- A cell's years, and the book that holds them.
pub mod Years
