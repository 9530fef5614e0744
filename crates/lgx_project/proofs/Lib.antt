pub mod Made
pub mod Mains
pub mod Passes
pub mod Spelled
pub mod Texts
mod LineFeed
mod KeyOrder
mod Wholes
mod Schemas
mod Lines
