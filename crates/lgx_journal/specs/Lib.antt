pub mod Counts
pub mod Journals
pub mod Lines
pub mod Reading
pub mod Runs
pub mod Written
