pub mod Runs
pub mod Asked
