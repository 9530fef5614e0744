pub mod Accesses
pub mod Apart
pub mod TagSets
pub mod Returns
pub mod Gains
pub mod Indexed
pub mod Indexes
pub mod Spots
