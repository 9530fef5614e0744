pub mod Places
pub mod Corners
pub mod Cuts
