pub mod Tests
pub mod Lists
pub mod Answers
pub mod Refusals
