pub mod StationViews
