pub mod Roles
pub mod View
pub mod Slots
pub mod Seen
