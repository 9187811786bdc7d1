pub mod Numbers
pub mod PassedOn
pub mod Sections
