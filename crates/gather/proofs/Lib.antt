pub mod Answers
pub mod Examples
pub mod InTurn
pub mod Taken
pub mod Promised
pub mod Adds
pub mod Lends
