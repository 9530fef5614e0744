pub mod Found
pub mod Cycles
pub mod MemberSizes
pub mod SizingStack
pub mod Placed
pub mod Verdicts
pub mod Seen
mod Spellings
