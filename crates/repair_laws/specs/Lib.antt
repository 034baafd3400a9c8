pub mod Mended
pub mod Stored
pub mod Laws
