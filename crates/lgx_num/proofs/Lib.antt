pub mod Names
pub mod Numbers
pub mod Images
pub mod Subscripts
pub mod ByteTable
