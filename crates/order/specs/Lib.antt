-- What is proved of the order of the cells, and of the strata of logged blocks.
pub mod Order
pub mod Strata
