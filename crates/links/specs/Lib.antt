pub mod Links
pub mod Keys
pub mod Pairs
pub mod Tables
