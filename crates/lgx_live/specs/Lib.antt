pub mod Session
pub mod Output
pub mod Laws
pub mod Console
pub mod Talks
pub mod Piped
