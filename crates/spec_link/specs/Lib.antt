pub mod LinkText
pub mod Links
pub mod LinkOutput
pub mod Consumed
