pub mod KeptRuns
pub mod Leads
pub mod ReadBack
pub mod Reading
pub mod RunTexts
