pub mod Leads
pub mod StationTexts
