pub mod Tasks
pub mod Forces
pub mod Connections
