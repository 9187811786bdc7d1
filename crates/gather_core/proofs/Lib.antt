pub mod Admitted
pub mod Singly
pub mod Climbing
pub mod Steps
pub mod Pages
pub mod Seeds
pub mod Windows
pub mod Elsewhere
