mod Images
mod Words
mod Rows
mod Bound
pub mod ReadRows
pub mod SiteReads
