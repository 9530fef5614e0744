pub mod Kept
pub mod Spaces
pub mod Watches
pub mod Index
pub mod JournalLines
