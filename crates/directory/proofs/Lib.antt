pub mod Checking
pub mod Parts
pub mod Facts
pub mod Names
pub mod Walks
pub mod LaidOut
pub mod Examples
