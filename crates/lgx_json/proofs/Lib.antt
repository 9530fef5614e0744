pub mod Keys
pub mod TaskParts
pub mod Values
pub mod Steps
