pub mod Copies
pub mod Modes
pub mod Starts
pub mod Edits
pub mod Laws
pub mod Kept
pub mod OwnTraces
