pub mod Name
pub mod Number
pub mod Image
pub mod Paths
pub mod Laws
