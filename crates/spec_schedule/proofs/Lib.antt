pub mod Places
pub mod TurnsDecided
pub mod WaysDecided
