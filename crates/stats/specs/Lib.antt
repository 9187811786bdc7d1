pub mod Statistics
pub mod Rows
