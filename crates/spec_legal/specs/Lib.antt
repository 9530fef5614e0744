pub mod LegalRuns
pub mod CountedRuns
pub mod EditByEdit
pub mod Merged
