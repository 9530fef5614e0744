pub mod Draws
pub mod Generated
pub mod JournalText
pub mod Listed
pub mod ProjectText
pub mod Rungs
