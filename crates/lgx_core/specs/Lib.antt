pub mod ControllerView
pub mod Codes
pub mod Represents
pub mod Gives
