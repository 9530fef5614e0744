pub mod RecorderView
pub mod Codes
pub mod ScriptRun
pub mod Stages
pub mod Follows
pub mod Serves
