pub mod Digits
pub mod Making
