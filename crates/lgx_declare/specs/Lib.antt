pub mod Few
pub mod AliasPlaces
pub mod Declaring
pub mod Listing
pub mod Passes
