pub mod Answers
pub mod Tasks
