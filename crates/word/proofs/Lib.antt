pub mod Bits
pub mod Places
pub mod Halves
pub mod Numbers
pub mod Masks
pub mod Examples
