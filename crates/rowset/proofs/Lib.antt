pub mod Asking
pub mod Same
pub mod Demands
