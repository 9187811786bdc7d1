pub mod Climbing
pub mod Places
pub mod Dense
pub mod Bytes
pub mod Laws
pub mod Examples
