pub mod Known
pub mod Entries
