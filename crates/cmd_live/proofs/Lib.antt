pub mod Opening
pub mod Leaving
