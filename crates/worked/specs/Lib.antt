-- Document 01, "Worked on paper".
pub mod Worked
