pub mod Progress
pub mod Turns
pub mod Serves
pub mod Seen
pub mod Lanes
