pub mod Remarked
pub mod Known
pub mod Changed
