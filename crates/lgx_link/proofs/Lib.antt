pub mod Headers
pub mod ReadSteps
pub mod WordsCounted
pub mod Links
pub mod Added
pub mod UnderWay
pub mod Room
