mod Numbers
mod Rows
pub mod Laws
mod Asking
