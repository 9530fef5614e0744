pub mod Says
pub mod Rosters
pub mod Traced
