-- What the listing's contracts cite: its layout and its check; last, what acceptance gives.
pub mod Layout
pub mod Check
pub mod Accepted
