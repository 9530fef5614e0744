pub mod AllMains
pub mod Checked
