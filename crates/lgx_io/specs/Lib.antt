pub mod Files
pub mod Sink
pub mod Memory
pub mod Gathered
pub mod Opened
