pub mod Sizes
pub mod Forms
