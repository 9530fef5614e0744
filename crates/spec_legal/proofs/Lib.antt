pub mod CountedLists
pub mod Mirrors
pub mod Along
pub mod Priority
pub mod Versions
pub mod Rungs
pub mod Ranks
pub mod Turns
pub mod Ways
pub mod Refused
pub mod CountedRuns
mod Unchanged
pub mod EditByEdit
pub mod MergedBooks
