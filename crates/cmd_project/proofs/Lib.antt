pub mod Sums
pub mod TextLefts
pub mod Migrations
