pub mod Reports
pub mod Telling
pub mod Asking
pub mod Watching
