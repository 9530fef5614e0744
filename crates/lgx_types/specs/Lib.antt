pub mod Tables
pub mod Outlines
pub mod Sizing
pub mod Cycles
pub mod Spellings
