pub mod Masks
pub mod Quotients
pub mod Dints
