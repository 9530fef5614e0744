pub mod Counting
pub mod Legal
pub mod TurnLaws
pub mod Partial
pub mod TraceView
pub mod Refusals
pub mod Stages
