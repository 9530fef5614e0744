pub mod Numbers
pub mod Whole
pub mod Sums
pub mod Pushes
pub mod InStep
pub mod Seeing
pub mod Crossing
