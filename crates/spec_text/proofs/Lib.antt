pub mod JoinedRuns
pub mod KeptScripts
pub mod WithinLimits
