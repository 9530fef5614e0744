pub mod Scoped
pub mod WholeTags
pub mod Sizes
pub mod Steps
pub mod Values
pub mod Connecting
