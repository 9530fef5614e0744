pub mod WordLists
pub mod Texts
pub mod Lines
pub mod Programs
