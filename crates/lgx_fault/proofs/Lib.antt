pub mod Keeps
pub mod Few
