pub mod LiveCall
pub mod LiveProcess
