pub mod Single
pub mod Layout
