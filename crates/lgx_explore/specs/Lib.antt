pub mod Shown
pub mod Nodes
pub mod Found
