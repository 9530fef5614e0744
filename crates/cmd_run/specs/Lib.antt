pub mod RunText
pub mod RunLines
pub mod RunPlan
