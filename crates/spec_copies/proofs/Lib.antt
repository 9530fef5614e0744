pub mod StartedCopies
pub mod Standing
pub mod CopiedBytes
pub mod WholeCopies
