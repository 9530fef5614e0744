pub mod CauseLine
pub mod Follow
pub mod Reports
pub mod Judging
pub mod Runs
