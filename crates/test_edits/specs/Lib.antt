pub mod Mains
pub mod Programs
pub mod Benches
