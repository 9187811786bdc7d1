pub mod Ends
pub mod Judged
pub mod Placed
