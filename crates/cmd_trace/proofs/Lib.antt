pub mod Says
pub mod FewPrograms
pub mod Tables
pub mod Places
pub mod Going
pub mod ProgramNames
pub mod JournalLanes
pub mod Traced
