pub mod DrawsOn
pub mod JournalOn
pub mod ListsOn
pub mod ProjectOn
