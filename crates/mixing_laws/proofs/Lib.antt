pub mod Mixes
pub mod Ranges
pub mod Paged
pub mod Alike
pub mod Finds
pub mod Does
pub mod Own
