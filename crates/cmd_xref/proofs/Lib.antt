pub mod NamesAt
pub mod UsesOf
pub mod XrefLefts
