-- What is proved of every list of calls.
pub mod History
