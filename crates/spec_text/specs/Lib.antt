pub mod TextLines
pub mod ActionText
pub mod JournalText
pub mod Scripts
pub mod ScriptText
pub mod ReportText
