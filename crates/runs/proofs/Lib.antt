pub mod Table
pub mod Parts
pub mod Found
pub mod Filling
pub mod Names
pub mod Back
pub mod Laid
pub mod Examples
