pub mod Reading
pub mod Striking
