pub mod CountLines
pub mod ReplayPlan
pub mod GenPlan
pub mod ReplayState
pub mod Rest
