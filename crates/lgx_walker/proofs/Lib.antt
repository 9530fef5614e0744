pub mod Counted
pub mod Trailed
pub mod Seeing
pub mod Windows
pub mod Walking
pub mod Telling
