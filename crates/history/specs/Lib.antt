pub mod Logs
pub mod Turns
pub mod Lent
pub mod Runs
