pub mod Sums
pub mod Emission
