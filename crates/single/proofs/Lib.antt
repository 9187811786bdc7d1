pub mod Laws
pub mod Named
pub mod Widths
pub mod Laid
