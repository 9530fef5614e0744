pub mod Standing
pub mod WholeCopies
