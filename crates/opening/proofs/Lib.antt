-- Laws of what an open writes.
pub mod Opened
