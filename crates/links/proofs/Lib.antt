pub mod Tables
pub mod Segments
pub mod Filling
