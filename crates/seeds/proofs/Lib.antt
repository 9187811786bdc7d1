pub mod Ends
pub mod Windows
pub mod Judging
pub mod Placing
