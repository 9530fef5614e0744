pub mod LinkCauses
pub mod LinkTexts
pub mod LinkPlan
pub mod LinkState
