pub mod KeptKinds
pub mod CallOperands
pub mod RowControls
pub mod KeptReturns
pub mod TriggeredTasks
pub mod BoundKinds
pub mod CopyBounds
