pub mod Taken
pub mod Declared
pub mod TagSteps
pub mod Aliases
pub mod Listings
pub mod Passing
pub mod Within
