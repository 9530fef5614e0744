pub mod Binds
pub mod Lists
pub mod Numbers
pub mod Options
pub mod Splits
