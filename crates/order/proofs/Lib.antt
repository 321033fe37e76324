-- Laws of the order of the cells.
pub mod OwnWords
pub mod Answers
pub mod Moved
pub mod Listings
pub mod Books
pub mod Calls
pub mod Starts
pub mod EveryOrder
pub mod Orders
pub mod EveryForecast
pub mod EveryBook
pub mod Strata
