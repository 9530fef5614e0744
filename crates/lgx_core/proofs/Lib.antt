pub mod Runs
pub mod Stretched
mod Opened
mod Replies
mod Marks
mod Copied
