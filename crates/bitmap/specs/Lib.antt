pub mod Body
pub mod Reading
