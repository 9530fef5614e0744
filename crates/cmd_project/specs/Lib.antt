pub mod CheckPlan
pub mod TextPlan
pub mod TextLeft
pub mod MigratePlan
