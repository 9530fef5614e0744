pub mod Causes
pub mod FirstCause
pub mod Pieces
