pub mod Entries
pub mod Fills
pub mod Index
pub mod Place
