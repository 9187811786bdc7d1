pub mod Words
pub mod Groups
pub mod Readings
pub mod Locating
pub mod Walking
pub mod Rows
pub mod Laying
pub mod Examples
