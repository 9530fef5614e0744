pub mod Naming
pub mod WholeTags
