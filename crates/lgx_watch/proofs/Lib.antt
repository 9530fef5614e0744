pub mod Pushes
pub mod EventLines
pub mod Spanned
pub mod BitSets
pub mod Rows
