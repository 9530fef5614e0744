pub mod Bits
pub mod Grains
pub mod Words
pub mod Args
pub mod Laws
