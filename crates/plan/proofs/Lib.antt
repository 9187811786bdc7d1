pub mod Choice
pub mod Answers
pub mod Ready
pub mod Same
pub mod Steps
