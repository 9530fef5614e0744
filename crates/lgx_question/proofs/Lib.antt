pub mod ReadTests
pub mod SeenLines
