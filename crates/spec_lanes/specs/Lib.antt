pub mod Turns
pub mod Held
pub mod Served
pub mod Laws
