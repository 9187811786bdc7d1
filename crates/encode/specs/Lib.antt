pub mod Headers
pub mod Segments
