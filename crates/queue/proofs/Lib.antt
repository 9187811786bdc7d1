pub mod Keys
pub mod Order
pub mod Turns
