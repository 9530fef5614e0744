pub mod StationsText
pub mod StationsPlan
pub mod Rest
