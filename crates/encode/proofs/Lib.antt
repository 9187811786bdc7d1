pub mod Headers
pub mod Locals
pub mod Wholes
pub mod Directories
