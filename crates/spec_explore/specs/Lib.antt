pub mod Growth
pub mod Questions
pub mod Layers
pub mod Witnesses
pub mod Completion
pub mod QuestionText
