pub mod Accepted
pub mod Aligned
