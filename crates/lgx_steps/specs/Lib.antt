pub mod PartsView
pub mod Plans
pub mod Represents
pub mod Gives
pub mod Stretches
pub mod Again
pub mod Fresh
pub mod Executing
