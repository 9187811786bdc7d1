pub mod Demands
pub mod Layouts
pub mod Table
