pub mod Saying
pub mod Texts
pub mod Points
pub mod Runs
pub mod Talking
pub mod Sessions
pub mod Lines
pub mod Events
