pub mod StateLists
