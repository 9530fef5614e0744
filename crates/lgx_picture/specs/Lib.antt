pub mod Shapes
pub mod Lanes
pub mod Marks
pub mod Runs
pub mod Svg
pub mod TimelinePlan
