pub mod Folds
mod HandsOver
