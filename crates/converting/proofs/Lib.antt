-- Laws of what a conversion writes.
pub mod Convertible
pub mod Converted
