pub mod Tags
pub mod Sized
pub mod Obeys
pub mod Laws
pub mod Laid
pub mod Bounds
