pub mod Records
pub mod Summing
pub mod Placing
pub mod Bodies
