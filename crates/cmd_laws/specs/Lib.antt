pub mod LawsPlan
pub mod LawsState
pub mod OwnTraces
