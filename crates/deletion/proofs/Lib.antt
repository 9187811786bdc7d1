pub mod Sections
pub mod Walking
pub mod Same
pub mod Bound
pub mod Back
pub mod Members
pub mod Examples
pub mod Planning
