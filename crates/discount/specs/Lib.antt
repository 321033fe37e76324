-- What the contracts of discount cite.
pub mod Discount
pub mod Bounds
