pub mod Strips
mod Folds
