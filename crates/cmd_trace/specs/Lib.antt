pub mod AuditPlan
pub mod AuditState
pub mod Seen
pub mod TraceLeft
pub mod TracePlan
pub mod TraceState
pub mod TraceLaws
