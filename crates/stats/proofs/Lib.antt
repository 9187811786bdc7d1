pub mod Joining
pub mod RunByRun
pub mod Positions
pub mod Ones
