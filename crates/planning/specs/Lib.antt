pub mod Refusals
pub mod Segments
pub mod Bodies
pub mod Planning
pub mod Held
