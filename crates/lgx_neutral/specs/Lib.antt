pub mod Answer
pub mod Lexing
pub mod OpenForks
pub mod Instructions
pub mod Reading
pub mod Taking
pub mod Writing
