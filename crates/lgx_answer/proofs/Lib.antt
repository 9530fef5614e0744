pub mod Written
pub mod Follow
pub mod Follows
pub mod TextLines
