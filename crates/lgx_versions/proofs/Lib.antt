pub mod Filled
pub mod Freed
pub mod Added
pub mod Held
