pub mod CauseLines
pub mod Plans
pub mod Judged
pub mod ReportLines
