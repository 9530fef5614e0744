pub mod Tells
pub mod Showing
pub mod Asked
