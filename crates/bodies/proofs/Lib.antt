pub mod Tested
pub mod Laws
pub mod Named
