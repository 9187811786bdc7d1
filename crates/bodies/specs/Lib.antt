pub mod Accepted
pub mod Bodies
