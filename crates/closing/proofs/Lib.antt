-- Laws of a closing.
pub mod Closable
pub mod Loop
pub mod Closed
