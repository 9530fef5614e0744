pub mod Endings
pub mod Plan
pub mod Answered
pub mod Puts
pub mod Laws
pub mod Exit
pub mod Process
