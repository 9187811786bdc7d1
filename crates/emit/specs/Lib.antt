pub mod Written
pub mod Words
