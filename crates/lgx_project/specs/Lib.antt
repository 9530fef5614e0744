pub mod Counting
pub mod Migrated
pub mod Parts
pub mod Passes
pub mod Programs
pub mod Sources
pub mod TaskParts
