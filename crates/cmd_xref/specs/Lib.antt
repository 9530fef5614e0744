pub mod XrefText
pub mod XrefLeft
pub mod XrefPlan
