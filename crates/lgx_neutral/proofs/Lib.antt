pub mod Runs
pub mod Instructions
pub mod Fits
pub mod OpsRead
pub mod Answers
pub mod Writing
