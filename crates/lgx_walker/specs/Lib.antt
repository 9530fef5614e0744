pub mod Trails
pub mod Places
pub mod Late
pub mod Lines
pub mod Walks
pub mod Told
