pub mod Plain
pub mod Entries
pub mod Rows
pub mod Fronts
