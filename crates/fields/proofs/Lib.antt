-- Laws that the crates above cite.
pub mod Valid
pub mod SameKind
