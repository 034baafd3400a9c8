pub mod CommandLines
mod CommandLineRows
pub mod Ranges
