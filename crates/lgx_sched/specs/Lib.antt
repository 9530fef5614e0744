pub mod TableView
pub mod ReadyBits
pub mod Represents
pub mod QuietTicks
