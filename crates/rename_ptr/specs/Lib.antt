pub mod Steps
pub mod Renaming
pub mod Stages
pub mod Counts
